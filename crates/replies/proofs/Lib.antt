pub mod ReplyMeaning
