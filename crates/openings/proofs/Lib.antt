pub mod OpeningTails
