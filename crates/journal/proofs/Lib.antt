mod Lines
mod Kept
mod FirstLines
mod Finishing
mod Replays
