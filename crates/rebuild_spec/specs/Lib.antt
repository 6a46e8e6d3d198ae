pub mod Same
pub mod Replace
pub mod Laying
pub mod Rules
