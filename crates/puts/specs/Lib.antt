-- Put: the decimal digits of a number, and what writing into a lent buffer does
pub mod Put
