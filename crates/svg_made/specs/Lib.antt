-- Of what each command of a text is made. Definitions only.
pub mod Made
