-- What the functions of the search ask and promise; nothing that a caller of the judge has to believe.
-- Search, Searching: what a search leaves, and what holds while it runs.
pub mod Search
pub mod Searching
