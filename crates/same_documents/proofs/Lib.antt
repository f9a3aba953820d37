pub mod AlikeLaws
pub mod SameAttrs
pub mod SameEdits
pub mod PermutedAttrs
