pub mod OneCause
