mod Eaches
mod Lines
