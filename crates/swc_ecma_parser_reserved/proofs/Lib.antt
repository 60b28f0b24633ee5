mod Texts
mod Agreement
