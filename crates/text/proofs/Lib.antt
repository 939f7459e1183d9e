pub mod Utf8Laws
pub mod WalkLaws
pub mod ReplacedLaws
pub mod WriteLaws
pub mod WrittenLaws
pub mod HashLaws
