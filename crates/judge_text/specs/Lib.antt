-- Replied: what `judge_text` gives for a text, the whole promise from bytes to bytes
pub mod Replied
-- Reply: what that comes to: an answer or one numbered refusal, and what two results share
pub mod Reply
-- inner: what private contracts go by
pub mod inner
-- HoaReplied: what `judge_hoa` gives for a text of the Hanoi format, the whole promise from bytes to bytes
pub mod HoaReplied
