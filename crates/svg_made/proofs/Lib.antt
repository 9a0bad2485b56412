-- Why each command of a text is made by its letter's meaning, of the nearest values of its numbers; and the letters' meanings.
pub mod Made
pub mod Letters
