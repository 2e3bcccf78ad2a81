pub mod Signs
pub mod Judged
pub mod Found
pub mod Signless
pub mod Exactly
pub mod Request
pub mod Told
pub mod Checked
