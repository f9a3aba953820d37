mod SpotWalks
mod LineLaws
mod KeyLaws
mod CountLaws
mod WalkLaws
mod TagLaws
mod BookLaws
mod SilentLaws
