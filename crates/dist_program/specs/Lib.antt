pub mod Budgets
pub mod CookieFile
pub mod PortTexts
pub mod Sentences
