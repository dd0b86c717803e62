-- What an addition is, and what it leaves.
pub mod Ends
pub mod Appended
pub mod Lifting
pub mod Mates
pub mod Amended
pub mod InRoom
pub mod Moving
pub mod Staying
pub mod Results
pub mod Sound
