-- Mark: what a set of marks is
pub mod Mark
