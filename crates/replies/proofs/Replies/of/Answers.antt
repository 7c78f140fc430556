-- `replies::Replies::of` meets its contract: zeros are left behind the bytes that are copied. Assumes nothing.
use mathlib.Core.Path.{◌≡◌}
use borrow.Author.Rules.{rules}
use lib.ListN.{length}
use Rattle.replies.proofs.ReplyMeaning.{replies_put}
use Rattle.replies.proofs.Replies.of.Goals as goal

pub returns : goal.returns
returns g c =
    let count : length c.args.bytes ≡ g.row.COUNT = search rules in
    replies_put c.args.bytes _ g.row.COUNT c.copy_from_slice.ensures.after count
