-- Form: which answer texts are well formed, and what each says
pub mod Form
-- Given: what a text says, read from its beginning, and what the reader gives
pub mod Given
