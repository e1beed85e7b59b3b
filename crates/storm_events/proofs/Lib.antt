pub mod StormLaws
