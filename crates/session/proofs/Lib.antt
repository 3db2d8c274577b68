mod DrillPlaying
mod Drills
mod Limited
mod Plans
mod Starved
