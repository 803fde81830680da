mod Marking
mod Covered
mod Trials
mod Agreement
mod Faults
mod Steps
mod Texts
