-- Looks: what a look over all edges shows, by which rows 5 to 7 pass a sound table
pub mod Looks
