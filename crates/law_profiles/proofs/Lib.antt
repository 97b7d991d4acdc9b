mod Rows
mod Nodes
mod Acts
mod Standing
mod Lines
mod Words
