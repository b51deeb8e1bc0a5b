-- Own: what the checker says of an answer that the judge printed for the same job text
pub mod Own
