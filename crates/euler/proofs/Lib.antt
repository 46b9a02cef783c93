-- Euler's inequality over whole numbers, the errors of the aspect ratio, and the scores, leaves first.
pub mod Inequality
pub mod Ratio
pub mod Aspect
pub mod Scores
