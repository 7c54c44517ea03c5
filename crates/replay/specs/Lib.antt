pub mod batches
