mod Dotting
