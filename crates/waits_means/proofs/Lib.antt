pub mod Await
