-- How facts, actions, literals and formulas are spoken of.
pub mod Names
pub mod Texts
pub mod Views
pub mod Lists
pub mod Listed
pub mod ProblemText
