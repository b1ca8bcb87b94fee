mod Bundles
mod Fronts
mod Lists
mod Numbers
mod PieceLemmas
mod Sequences
mod Streams
