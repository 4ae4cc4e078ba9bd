pub mod FromTasks
