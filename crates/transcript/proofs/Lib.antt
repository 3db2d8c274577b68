mod ByIds
mod BindingLines
mod EntryLines
