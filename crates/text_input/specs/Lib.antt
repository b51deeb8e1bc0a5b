-- Input: what reading comes to
pub mod Input
-- Served: what a program did that reads a text and writes a reply
pub mod Served
