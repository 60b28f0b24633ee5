mod Clean
mod Files
mod Names
mod Results
mod Sums
mod Words
