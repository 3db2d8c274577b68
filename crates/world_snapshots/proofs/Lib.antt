mod Feeds
mod Progress
mod Rests
mod SavedText
mod Steps
mod UnderWay
mod Written
