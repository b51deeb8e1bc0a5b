-- Cases: case distinctions on numbers
pub mod Cases
-- Laws: the laws of mark sets, over every width
pub mod Laws
-- Unique: each contract allows one result
pub mod Unique
