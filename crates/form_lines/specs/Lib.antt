-- What the contracts of `form_lines` cite.
pub mod Written
pub mod Lines
