mod RightLaws
mod StepLaws
mod SoughtLaws
mod AskedLaws
mod ListLaws
mod SameLaws
mod RefusalLaws
mod ReplayLaws
mod NameLaws
mod AnswerLaws
mod SeenLaws
mod GoodLaws
mod RenewLaws
mod RenewedLaws
mod WrittenLaws
mod TextLaws
pub mod Tools
