pub mod ThreadsNamed
