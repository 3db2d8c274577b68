pub mod DrillPlaying
pub mod Plans
