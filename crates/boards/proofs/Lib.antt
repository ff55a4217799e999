mod Empty
mod Weighing
