-- What the contracts of private functions say: the states that items lead to, and what the code keeps of
-- them. No promise of the crate rests on these.
pub mod Keeping
pub mod Leading
pub mod LineEnds
pub mod States
