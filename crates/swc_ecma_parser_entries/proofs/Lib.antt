mod ItemAlone
mod SetBack
mod Begun
mod Read
mod Ended
mod Programs
