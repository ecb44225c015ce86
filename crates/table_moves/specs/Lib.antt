pub mod PutIn
