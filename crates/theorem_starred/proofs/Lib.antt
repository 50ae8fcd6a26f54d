mod Edges
mod Example
