pub mod EachNames
pub mod Forms
pub mod GoodNames
pub mod Mapped
pub mod PlanForm
pub mod Typing
pub mod OneAnswer
pub mod Refusals
