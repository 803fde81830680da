mod Scanned
mod Begun
