pub mod PurgeNamespace
