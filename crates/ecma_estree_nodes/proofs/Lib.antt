mod Lists
mod Numbers
mod Pieces
mod Scan
mod Trees
mod Words
