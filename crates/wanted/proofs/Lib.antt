pub mod FigureLaws
pub mod TileLaws
pub mod StreamLaws
pub mod SaysLaws
pub mod DrivenLaws
pub mod RuleLaws
