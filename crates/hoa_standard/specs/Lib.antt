-- Standard: the standard formulas with c marks, and what each means (section 3)
pub mod Standard
-- Machines: four small machines with counters, and one for the truth values
pub mod Machines
-- Formulas: admission, one token at a time
pub mod Formulas
-- inner: what the functions promise
pub mod inner
