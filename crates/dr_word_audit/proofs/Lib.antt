mod Apart
mod Counted
mod Lasting
mod Looks
mod NamedLines
mod Pieces
mod SeenAll
mod Stopped
