-- Climb, Place, Source, Translated: what the translated table is, to be believed. inner: what the functions ask.
pub mod Climb
pub mod Place
pub mod Source
pub mod Translated
pub mod inner
