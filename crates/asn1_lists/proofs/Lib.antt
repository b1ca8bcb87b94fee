mod Runs
mod Encoded
