pub mod Read
mod Walks
