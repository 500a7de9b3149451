mod Pairing
mod Texts
