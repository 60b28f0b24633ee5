mod Payloads
mod Read
mod Said
